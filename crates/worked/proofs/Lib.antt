mod Literal
mod Worked
mod Derived
