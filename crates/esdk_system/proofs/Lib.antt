mod Fronts
mod Known
mod Retried
