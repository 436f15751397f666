mod Adding
mod Along
mod Differing
mod Falling
mod FreePaths
mod Positives
mod Taking
