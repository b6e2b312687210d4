mod Called
mod Walks
