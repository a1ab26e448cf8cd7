-- Proves the contract of `run`, from how the run of its command ends and from the laws of the program.
use Rattle.wf_run.proofs.ProgramLaws.{program_laws}
use Rattle.wf_run.proofs.Runs.{run_says, ends_as_asked, of_same}
use Rattle.wf_run.proofs.commands.run.Goals as goal

pub returns : goal.returns
returns g c =
    let run = of_same _ _ _ _ _ _ _ _ _ _ _ c.command_from.ensures.command c.carry_out.ensures.ends in
    let says = run_says _ _ _ _ _ _ _ _ _ _ run in
    let asked = ends_as_asked _ _ _ _ _ _ _ _ _ _ run in
    record {
      usage = (says.usage, says.none);
      untouched = λ is. (says.source_kept is, says.sink_kept is);
      replay = asked.replay;
      capture = asked.capture;
      session = asked.session;
      uplink = asked.uplink;
      frames = asked.frames;
      soak = asked.soak;
      live = asked.live;
      help = asked.help;
      version = asked.version;
      laws = program_laws _;
      read = says.read;
      write = says.write;
    }
