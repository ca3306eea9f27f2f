-- Files that are known.
use Rattle.std.specs.Prelude.{Contains}
use Rattle.esdk_system.specs.declared.identity.Identity.{Identity}
use Rattle.esdk_system.specs.declared.identity.KnownFiles.{KnownFiles}

-- the file is among those that are known
abbrev pub IsKnown : KnownFiles → Identity → Type 0
IsKnown known file = Contains known.files.keys (file.device, file.inode)
