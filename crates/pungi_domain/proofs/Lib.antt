mod Products
mod Dots
mod ConstantLemmas
mod FlatLemmas
mod Tests
