-- The kinds of start lines before version 4.
pub data StartKind : Type 0 where
  Directory : StartKind
  File : StartKind
  Link : StartKind
