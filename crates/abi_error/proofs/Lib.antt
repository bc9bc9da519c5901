-- a name with zeros after it
mod Names
