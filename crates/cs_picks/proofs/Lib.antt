mod Allowed
mod Compared
mod Holes
mod Members
mod Printed
mod Written
