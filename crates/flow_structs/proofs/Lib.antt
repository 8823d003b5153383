pub mod WrittenFront
