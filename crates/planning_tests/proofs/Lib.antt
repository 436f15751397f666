mod Forms
mod Sent
