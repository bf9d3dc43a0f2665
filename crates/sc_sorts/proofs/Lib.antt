mod Found
mod Leading
