-- What a deleted entry named before version 4.
pub data EntryKind : Type 0 where
  File : EntryKind
  Directory : EntryKind
