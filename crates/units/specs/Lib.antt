pub mod Datum
