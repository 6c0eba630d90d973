mod Frames
mod Settling
