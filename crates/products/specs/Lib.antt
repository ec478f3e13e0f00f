-- Open first: Products.antt.
pub mod Products
pub mod ProductLaws
pub mod Words
