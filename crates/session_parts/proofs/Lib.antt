mod Handing
mod Waitings
