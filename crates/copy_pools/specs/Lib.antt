pub mod Backups
