mod Asked
mod Called
