use Rattle.command_words.proofs.Written.{names_means, names_joined_means, pipe_means, pipe_joined_means, pipe_traced_means, serve_means, serve_joined_means, serve_runs_means, serve_runs_joined_means, refs_means, refs_joined_means, idl_means, idl_joined_means, call_means, call_joined_means, call_alone_means, load_means, load_joined_means}
use Rattle.command_words.proofs.laws.commands_mean_what_they_say.Goals as goal

pub returns : goal.returns
returns c = record {
  pipe = λ file number file_plain number_plain file_clean number_clean. pipe_means file number file_plain number_plain file_clean number_clean;
  pipe_joined = λ file number file_clean number_clean. pipe_joined_means file number file_clean number_clean;
  pipe_traced = λ file number file_clean number_clean. pipe_traced_means file number file_clean number_clean;
  serve = λ file place file_plain place_plain file_clean place_clean. serve_means file place file_plain place_plain file_clean place_clean;
  serve_joined = λ file place file_clean place_clean. serve_joined_means file place file_clean place_clean;
  serve_runs = λ file place number file_plain place_plain number_plain file_clean place_clean number_clean.
      serve_runs_means file place number file_plain place_plain number_plain file_clean place_clean number_clean;
  serve_runs_joined = λ file place number file_clean place_clean number_clean. serve_runs_joined_means file place number file_clean place_clean number_clean;
  names = λ place place_plain place_clean. names_means place place_plain place_clean;
  names_joined = λ place place_clean. names_joined_means place place_clean;
  refs = λ place file place_plain file_plain place_clean file_clean. refs_means place file place_plain file_plain place_clean file_clean;
  refs_joined = λ place file place_clean file_clean. refs_joined_means place file place_clean file_clean;
  idl = λ file file_plain file_clean. idl_means file file_plain file_clean;
  idl_joined = λ file file_clean. idl_joined_means file file_clean;
  call = λ remote op args priority file id number remote_plain op_plain args_plain priority_plain file_plain id_plain number_plain
      remote_clean op_clean args_clean priority_clean file_clean id_clean number_clean.
      call_means remote op args priority file id number remote_plain op_plain args_plain priority_plain file_plain id_plain number_plain
      remote_clean op_clean args_clean priority_clean file_clean id_clean number_clean;
  call_joined = λ remote op args priority file id number remote_clean op_clean args_clean priority_clean file_clean id_clean number_clean.
      call_joined_means remote op args priority file id number remote_clean op_clean args_clean priority_clean file_clean id_clean number_clean;
  call_alone = λ remote op args priority file id remote_plain op_plain args_plain priority_plain file_plain id_plain
      remote_clean op_clean args_clean priority_clean file_clean id_clean.
      call_alone_means remote op args priority file id remote_plain op_plain args_plain priority_plain file_plain id_plain
      remote_clean op_clean args_clean priority_clean file_clean id_clean;
  load = λ seed count file batch fragment seed_plain count_plain file_plain batch_plain fragment_plain seed_clean count_clean file_clean batch_clean fragment_clean.
      load_means seed count file batch fragment seed_plain count_plain file_plain batch_plain fragment_plain seed_clean count_clean file_clean batch_clean fragment_clean;
  load_joined = λ seed count file batch fragment seed_plain count_plain seed_clean count_clean file_clean batch_clean fragment_clean.
      load_joined_means seed count file batch fragment seed_plain count_plain seed_clean count_clean file_clean batch_clean fragment_clean;
}
