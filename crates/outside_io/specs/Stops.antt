-- How a refusal of the outside stops a reading.
use Rattle.outside_io.specs.declared.files.OutFault.{OutFault}
use Rattle.outside_io.specs.declared.files.OutFault.TheVariants.{Failed, Memory}
use Rattle.outside_io.specs.declared.reading.ReadStop.{ReadStop}
use Rattle.outside_io.specs.declared.reading.ReadStop.TheVariants.{Failed as FailedStop, Memory as MemoryStop}

-- the stop with the same cause
abbrev pub stop_of : OutFault → ReadStop
stop_of Failed = FailedStop
stop_of Memory = MemoryStop
