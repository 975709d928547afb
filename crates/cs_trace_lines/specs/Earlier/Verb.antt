-- The operations before version 4, by the names that lines have under `op`.
pub data Verb : Type 0 where
  Creat : Verb
  Mkdir : Verb
  Unlink : Verb
  Rmdir : Verb
  Rename : Verb
  Link : Verb
  Write : Verb
  Truncate : Verb
  Chmod : Verb
  Chown : Verb
  Fsync : Verb
  FsyncRange : Verb
  Sync : Verb
  Say : Verb
