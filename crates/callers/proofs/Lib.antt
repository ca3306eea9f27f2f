mod Sealed
mod Opened
mod Resealed
mod ResealedPieces
