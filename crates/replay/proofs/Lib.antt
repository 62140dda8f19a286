mod Ends
mod OneFate
mod Places
