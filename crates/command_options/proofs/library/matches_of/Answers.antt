use Rattle.std.proofs.Common.{rules, ◌≡◌, map}
use Rattle.clap.specs.Words.{app_of}
use Rattle.clap.specs.Values.{kind_of}
use Rattle.clap.specs.declared.error.kind.ErrorKind.TheVariants.{OutOfMemory}
use Rattle.command_options.proofs.Readers.{found_so, fails_so}
use Rattle.command_options.proofs.library.matches_of.Goals as goal

pub returns-in-Ok : goal.returns-in-Ok
returns-in-Ok g c =
    found_so (app_of c.args.command) (map g.S.AsStr.text c.args.words.now) c.in-Ok.matches c.requires c.in-Ok.ensures.matches (c.in-Ok.ensures.kinds c.requires)

pub returns-else-eq : goal.returns-else-eq
returns-else-eq g c =
    let other : kind_of c.in-Err.e ≡ OutOfMemory → ⊥ = search rules in
    fails_so (app_of c.args.command) (map g.S.AsStr.text c.args.words.now) c.in-Err.e (c.in-Err.ensures.kinds c.requires) other
