-- Error numbers, as errno(3) names them.
use Rattle.std.specs.Prelude.{ℕ, ℤ, pos, ◌-ℤ◌}
use Rattle.tagged_model.specs.declared.fault.MapFault.{MapFault}
use Rattle.tagged_model.specs.declared.fault.MapFault.TheVariants as map
use Rattle.tenant.specs.declared.errno.Errno.{Errno}
use Rattle.tenant.specs.declared.errno.Errno.TheVariants.{NotPermitted, NoEntry, TooBig, BadDescriptor, NoMemory}
use Rattle.tenant.specs.declared.errno.Errno.TheVariants.{AccessDenied, BadAddress, Exists, Invalid, TooManyOpen, NoSpace}

-- the number of an error: EPERM, ENOENT, E2BIG, EBADF, ENOMEM, EACCES, EFAULT, EEXIST, EINVAL,
-- EMFILE, ENOSPC
abbrev pub errno_number : Errno → ℕ
errno_number NotPermitted = 1
errno_number NoEntry = 2
errno_number TooBig = 7
errno_number BadDescriptor = 9
errno_number NoMemory = 12
errno_number AccessDenied = 13
errno_number BadAddress = 14
errno_number Exists = 17
errno_number Invalid = 22
errno_number TooManyOpen = 24
errno_number NoSpace = 28

-- the status of a command with this error: the negated number
abbrev pub status_of : Errno → ℤ
status_of errno = pos 0 -ℤ pos (errno_number errno)

-- the error of a command whose call of a map fails for this fault
abbrev pub map_errno : MapFault → Errno
map_errno map.NoEntry = NoEntry
map_errno map.TooBig = TooBig
map_errno map.Memory = NoMemory
map_errno map.Exists = Exists
map_errno map.Invalid = Invalid
map_errno map.NoSpace = NoSpace
