mod ChildrenTold
mod Fitted
mod Indexed
mod KeyTold
mod KeysRight
mod ParentsTold
mod Refusing
mod Turns
