pub mod SixOrders
