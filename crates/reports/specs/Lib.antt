pub mod ClientRows
pub mod Lines
pub mod Pieces
pub mod PolicyRows
pub mod Printed
pub mod Refusals
pub mod StoreRows
pub mod WorkedLines
