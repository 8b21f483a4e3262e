mod Said
mod Taken
mod Told
