mod Buffers
