mod Giving
mod Starting
mod Closing
mod Completing
