pub mod Cells
pub mod OnePart
pub mod Pages
