pub mod Marks
pub mod PathOrders
