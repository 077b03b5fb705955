mod Alike
mod Blanks
mod Fitted
mod Laws
mod Named
mod Spaced
