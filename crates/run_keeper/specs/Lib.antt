pub mod RunKeeper
