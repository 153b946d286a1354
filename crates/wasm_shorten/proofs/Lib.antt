mod Bytes
