mod Narrowed
mod SameValues
