mod Left
mod Listed
mod Made
mod Subjects
