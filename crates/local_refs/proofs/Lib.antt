mod Sweeps
mod Frees
mod Firsts
mod Taking
