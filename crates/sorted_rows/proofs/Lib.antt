pub mod RowOrders
