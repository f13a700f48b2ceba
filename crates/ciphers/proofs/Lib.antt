mod Made
mod AesLoops
mod AesWords
mod AesMade
