-- marks set token by token
mod Laws
