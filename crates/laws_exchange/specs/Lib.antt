pub mod EmptyThird
pub mod AnyOrder
pub mod SixOrders
pub mod OverEmpty
