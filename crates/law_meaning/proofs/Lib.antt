mod Splitting
mod Walking
mod Worked
