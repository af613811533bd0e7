pub mod HeadIn
