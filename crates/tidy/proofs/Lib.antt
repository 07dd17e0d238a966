mod Places
mod Twins
mod Kept
mod Fits
mod Normal
mod Steps
mod Walk
