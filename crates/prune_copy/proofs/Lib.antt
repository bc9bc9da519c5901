-- values written again
mod Laws
