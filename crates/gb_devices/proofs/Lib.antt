pub mod Stillness
