mod Lines
mod TeamLines
