pub mod Tabular
