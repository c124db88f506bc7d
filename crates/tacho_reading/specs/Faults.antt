-- Private to tacho_reading: Faults of the tables, as the archive names them.
use Rattle.tacho_state.specs.declared.fault.StoreFault.{StoreFault}
use Rattle.tacho_state.specs.declared.fault.StoreFault.TheVariants as store
use Rattle.tacho_tables.specs.declared.fault.TableFault.{TableFault}
use Rattle.tacho_tables.specs.declared.fault.TableFault.TheVariants as table

abbrev pub fault_of_tables : TableFault → StoreFault
fault_of_tables table.Memory = store.Memory
fault_of_tables table.Store = store.Store
