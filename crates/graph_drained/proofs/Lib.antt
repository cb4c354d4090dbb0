mod Every
