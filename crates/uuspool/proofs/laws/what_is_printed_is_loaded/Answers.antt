use Rattle.std.proofs.Common.{◌∙◌, ap}
use Rattle.uu_times.specs.SysFile.{sys_file_of}
use Rattle.uu_request.specs.Requests.{load_request}
use Rattle.uuspool.proofs.laws.what_is_printed_is_loaded.Goals as goal

pub returns : goal.returns
returns c settings state name output status at user good printed =
    ap (λ text. load_request (sys_file_of text)) printed.0 ∙ ap load_request (c.definitions_are_read_back.ensures.read state name good)
