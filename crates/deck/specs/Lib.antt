pub mod Deck
