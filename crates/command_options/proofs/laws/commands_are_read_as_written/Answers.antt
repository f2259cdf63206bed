use Rattle.command_options.proofs.Written.{names_reads, names_joined_reads, pipe_reads, pipe_joined_reads, pipe_traced_reads, serve_reads, serve_joined_reads, serve_runs_reads, serve_runs_joined_reads, refs_reads, refs_joined_reads, idl_reads, idl_joined_reads, call_reads, call_joined_reads, call_alone_reads, load_reads, load_joined_reads}
use Rattle.command_options.proofs.laws.commands_are_read_as_written.Goals as goal

pub returns : goal.returns
returns c = record {
  pipe = λ file number file_plain number_plain. pipe_reads file number file_plain number_plain;
  pipe_joined = λ file number. pipe_joined_reads file number;
  pipe_traced = λ file number. pipe_traced_reads file number;
  serve = λ file place file_plain place_plain. serve_reads file place file_plain place_plain;
  serve_joined = λ file place. serve_joined_reads file place;
  serve_runs = λ file place number file_plain place_plain number_plain. serve_runs_reads file place number file_plain place_plain number_plain;
  serve_runs_joined = λ file place number. serve_runs_joined_reads file place number;
  names = λ place place_plain. names_reads place place_plain;
  names_joined = λ place. names_joined_reads place;
  refs = λ place file place_plain file_plain. refs_reads place file place_plain file_plain;
  refs_joined = λ place file. refs_joined_reads place file;
  idl = λ file file_plain. idl_reads file file_plain;
  idl_joined = λ file. idl_joined_reads file;
  call = λ remote op args priority file id number remote_plain op_plain args_plain priority_plain file_plain id_plain number_plain.
      call_reads remote op args priority file id number remote_plain op_plain args_plain priority_plain file_plain id_plain number_plain;
  call_joined = λ remote op args priority file id number. call_joined_reads remote op args priority file id number;
  call_alone = λ remote op args priority file id remote_plain op_plain args_plain priority_plain file_plain id_plain.
      call_alone_reads remote op args priority file id remote_plain op_plain args_plain priority_plain file_plain id_plain;
  load = λ seed count file batch fragment seed_plain count_plain file_plain batch_plain fragment_plain.
      load_reads seed count file batch fragment seed_plain count_plain file_plain batch_plain fragment_plain;
  load_joined = λ seed count file batch fragment seed_plain count_plain. load_joined_reads seed count file batch fragment seed_plain count_plain;
}
