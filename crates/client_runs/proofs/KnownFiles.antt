-- What a file of IDL gives, by its bytes.
use Rattle.std.proofs.Common.{◌≡◌, ℕ, List}
use Rattle.std.specs.Prelude.{Result, Ok, Err}
use Rattle.orb_base.specs.Filing.{FilesState}
use Rattle.text_streams.specs.Files.{IsFile}
use Rattle.idl_tokens.specs.declared.token.TheConstants.{MAX_TEXT}
use Rattle.idl_types.specs.declared.repository.Repository.{Repository}
use Rattle.idl_types.specs.Contents.{things_of}
use Rattle.client_runs.specs.Interfaces.{ReadsBytes, ReadsFile, AddsBuiltIn, KnowsBy}
use Rattle.client_runs.specs.declared.call_end.CallEnd.{CallEnd}
use Rattle.client_runs.specs.declared.call_end.CallEnd.TheVariants as end
use Rattle.client_runs.specs.declared.call_end.FileFault.TheVariants as fault

-- the bytes are there
pub file_read : (answer : Result Repository CallEnd) (name bytes : List ℕ) (old new : FilesState) → IsFile MAX_TEXT old name bytes
    → new.faults ≡ old.faults → ReadsBytes answer bytes → ReadsFile answer name old new
file_read (Ok r) name bytes old new file same h = (record { bytes = bytes; file = file; gives = h }, same)
file_read (Err (end.File (fault.Refused f))) name bytes old new file same h = (record { bytes = bytes; file = file; gives = h }, same)
file_read (Err end.NoMemory) name bytes old new file same h = same
file_read (Err (end.File fault.Absent)) name bytes old new file same h = absurd h
file_read (Err (end.File fault.TooLong)) name bytes old new file same h = absurd h
file_read (Err (end.File fault.ReadFault)) name bytes old new file same h = absurd h
file_read (Err (end.Local f)) name bytes old new file same h = absurd h
file_read (Err end.NetFault) name bytes old new file same h = absurd h
file_read (Err (end.Called f)) name bytes old new file same h = absurd h
file_read (Err end.WriteFault) name bytes old new file same h = absurd h
file_read (Err end.Done) name bytes old new file same h = absurd h

-- and the built-in module is added to what they declare
pub file_known : (r : Repository) (answer : Result Repository CallEnd) (name : List ℕ) (old new : FilesState)
    → ReadsFile (Ok r) name old new → AddsBuiltIn answer r → KnowsBy answer name old new
file_known r (Ok known) name old new h all = (record { declared = things_of r; gives = h.0; all = all }, h.1)
file_known r (Err end.NoMemory) name old new h all = h.1
file_known r (Err (end.File f)) name old new h all = absurd all
file_known r (Err (end.Local f)) name old new h all = absurd all
file_known r (Err end.NetFault) name old new h all = absurd all
file_known r (Err (end.Called f)) name old new h all = absurd all
file_known r (Err end.WriteFault) name old new h all = absurd all
file_known r (Err end.Done) name old new h all = absurd all
