pub mod Even
pub mod Leaf
pub mod Made
pub mod Mix
pub mod Place
pub mod Record
