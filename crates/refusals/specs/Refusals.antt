-- The numbers and texts of refusals.
use Rattle.std.specs.Prelude.{ℕ, List, ◌++◌, codes}
use Rattle.std.specs.Fmt.{decimal}
use Rattle.refusals.specs.declared.refusal.Refusal.{Refusal}
use Rattle.refusals.specs.declared.refusal.Refusal.TheVariants as refusal

abbrev pub number_of : Refusal → ℕ
number_of refusal.NoSuchPath = 1
number_of refusal.NoSuchMethod = 2
number_of refusal.NotJson = 3
number_of refusal.UnknownField = 4
number_of refusal.MissingField = 5
number_of refusal.WrongKind = 6
number_of refusal.OutOfRange = 7
number_of refusal.TooLarge = 8
number_of refusal.BadHead = 9
number_of refusal.OnlyBeforeBoot = 10
number_of refusal.OnlyAfterBoot = 11
number_of refusal.NotPaused = 12
number_of refusal.AlreadyConfigured = 13
number_of refusal.NoBootSource = 14
number_of refusal.SecondRootDrive = 15
number_of refusal.NoSuchId = 16
number_of refusal.DoesNotFit = 17
number_of refusal.NoSuchFile = 18
number_of refusal.TooManyDevices = 19
number_of refusal.NotTracked = 20
number_of refusal.NoBase = 21
number_of refusal.GateClosed = 22
number_of refusal.WrongMagic = 23
number_of refusal.BadField = 24
number_of refusal.SizesDiffer = 25
number_of refusal.MergeUnfinished = 26
number_of refusal.ParentDiffers = 27
number_of refusal.NoSlotLeft = 28
number_of refusal.StatisticsOff = 29
number_of refusal.OutsideFailed = 30
number_of refusal.OutOfMemory = 31
number_of refusal.StoreNotInitialized = 32

abbrev pub text_of : Refusal → List ℕ
text_of refusal.NoSuchPath = codes "no such path"
text_of refusal.NoSuchMethod = codes "no such method on this path"
text_of refusal.NotJson = codes "the body is not JSON"
text_of refusal.UnknownField = codes "unknown field"
text_of refusal.MissingField = codes "missing field"
text_of refusal.WrongKind = codes "a field has the wrong kind"
text_of refusal.OutOfRange = codes "a value is out of range"
text_of refusal.TooLarge = codes "too large"
text_of refusal.BadHead = codes "the request head is not accepted"
text_of refusal.OnlyBeforeBoot = codes "allowed only before boot"
text_of refusal.OnlyAfterBoot = codes "allowed only after boot"
text_of refusal.NotPaused = codes "the microVM is not paused"
text_of refusal.AlreadyConfigured = codes "something is already configured"
text_of refusal.NoBootSource = codes "no boot source was given"
text_of refusal.SecondRootDrive = codes "a second root drive"
text_of refusal.NoSuchId = codes "no such device or id"
text_of refusal.DoesNotFit = codes "the image, initrd and tree do not fit in memory"
text_of refusal.NoSuchFile = codes "no such file"
text_of refusal.TooManyDevices = codes "too many devices"
text_of refusal.NotTracked = codes "dirty pages are not tracked"
text_of refusal.NoBase = codes "there is no base snapshot"
text_of refusal.GateClosed = codes "a file's gate is closed"
text_of refusal.WrongMagic = codes "wrong magic or version"
text_of refusal.BadField = codes "a field of a file is bad"
text_of refusal.SizesDiffer = codes "sizes differ"
text_of refusal.MergeUnfinished = codes "a merge is unfinished"
text_of refusal.ParentDiffers = codes "parent or identity differs"
text_of refusal.NoSlotLeft = codes "no merge slot or number is left"
text_of refusal.StatisticsOff = codes "balloon statistics are off"
text_of refusal.OutsideFailed = codes "an outside call failed"
text_of refusal.OutOfMemory = codes "out of memory"
text_of refusal.StoreNotInitialized = codes "the metadata store is not initialized"

-- Bad Request, but for what isn't the caller's: Internal Server Error, Service Unavailable
abbrev pub status_of : Refusal → ℕ
status_of refusal.OutsideFailed = 500
status_of refusal.OutOfMemory = 503
status_of other = 400

-- the body of the reply that tells a refusal
abbrev pub fault_text : Refusal → List ℕ
fault_text refusal =
    codes "{\"fault_message\":\"" ++ decimal (number_of refusal) ++ codes ": " ++ text_of refusal ++ codes "\"}"
