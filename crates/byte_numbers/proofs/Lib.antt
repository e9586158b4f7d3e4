mod AsBytes
